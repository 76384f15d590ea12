mod Evicting
mod Fronts
mod Joining
mod Listed
mod OpenEvents
mod Opening
mod Stepping
mod Tokens
