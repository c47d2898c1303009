mod Bringing
mod Given
mod Passing
