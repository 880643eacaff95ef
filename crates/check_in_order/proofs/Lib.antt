mod Row
mod Chain
mod Passed
