mod Seek
mod Giving
