mod Opened
mod Turns
mod Answered
