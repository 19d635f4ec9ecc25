pub mod Records
pub mod Entries
pub mod Reading
pub mod Logs
pub mod Undone
pub mod UndonePages
