pub mod Keys
pub mod Views
pub mod Given
pub mod Members
pub mod DeclaredSoFar
