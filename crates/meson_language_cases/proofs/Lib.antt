-- Lemmas for the tests.
mod FirstItem
mod Borders
