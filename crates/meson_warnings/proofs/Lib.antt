mod SomeNames
mod Told
