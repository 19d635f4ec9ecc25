pub mod Grammar
pub mod Place
pub mod StmtPlace
pub mod Bare
pub mod Laws
