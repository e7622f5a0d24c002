mod Numbers
mod Listings
mod Records
mod LinkTables
mod Places
