mod Within
mod Halves
mod Rows
