pub mod Rules
pub mod Form
pub mod Grammar
pub mod Plain
pub mod Read
pub mod Laws
