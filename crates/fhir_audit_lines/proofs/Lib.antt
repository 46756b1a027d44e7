-- Lemmas on what an audit tells.
mod Names
mod Told
mod Urls
