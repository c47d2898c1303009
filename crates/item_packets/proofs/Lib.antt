mod Growing
mod Placing
