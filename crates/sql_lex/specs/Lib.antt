pub mod Words
pub mod Texts
pub mod Comments
pub mod Tokens
pub mod Cut
pub mod Ahead
pub mod Laws
