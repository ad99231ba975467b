mod Listed
mod Gathers
mod Walks
mod Plans
