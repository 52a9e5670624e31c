mod Filling
mod Fronts
