mod Writing
mod OneWord
mod Refusals
mod Closings
