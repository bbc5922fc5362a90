pub mod Laws
pub mod MoveLaws
pub mod OrderLaws
pub mod PackingLaws
pub mod SetLaws
