mod Listings
mod Fronts
