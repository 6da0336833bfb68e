mod MessageSenders
mod Order
mod Reach
mod Refreshings
mod Written
