mod Steps
mod Held
mod Instances
mod Texts
