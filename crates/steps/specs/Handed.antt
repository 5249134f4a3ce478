-- The words of the crates below that a pool's contracts use.
pub use Rattle.limits.specs.Ledgers.{ledger_of}
pub use Rattle.limits.specs.declared.line.Line.{Line}
pub use Rattle.limits.specs.declared.pool_space.Space.{Space}
pub use Rattle.limits.specs.declared.outlook.outlook.Outlook.{Outlook}
pub use Rattle.lookups.specs.Accounted.{IsAccounted}
pub use Rattle.lookups.specs.Named.{IsNoLive}
