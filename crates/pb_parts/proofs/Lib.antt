mod Rising
mod Stripping
