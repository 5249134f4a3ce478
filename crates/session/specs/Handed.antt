-- The words of the book that callers of a session's contracts use.
pub use Rattle.session.specs.Entering.{Ran, IsFullOrNoMemory}
pub use Rattle.session.specs.Entered.{is_opened}
pub use Rattle.session.specs.History.{IsLegal}
pub use Rattle.session.specs.Receipts.{Placed, Kept, kept_code}
pub use Rattle.session.specs.Whole.{IsAnswered}
