mod Stretches
mod Flip
mod Rest
mod Listing
