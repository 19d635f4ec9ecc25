pub mod BeginKeeps
pub mod LatchKeeps
pub mod LookKeeps
pub mod FetchKeeps
pub mod ReadKeeps
pub mod PassKeeps
pub mod LostKeeps
