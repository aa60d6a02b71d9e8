mod Asking
mod Steps
mod ReadStates
mod Written
