-- What the functions share.
mod Ways
