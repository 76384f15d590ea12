mod Entries
mod Listed
mod Working
