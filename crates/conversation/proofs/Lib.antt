mod NoBytes
mod Reading
