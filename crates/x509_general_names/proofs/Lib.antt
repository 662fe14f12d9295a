mod Texts
mod Elements
mod Ends
mod Foreign
mod Leaves
