pub mod numbers
pub mod quotas
pub mod questions
pub mod requests
pub mod asked
pub mod ledgers
