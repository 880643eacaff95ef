mod Copy
mod Trials
