pub mod Faults
pub mod PageFile
pub mod LogFile
pub mod Volume
pub mod Files
pub mod Sink
