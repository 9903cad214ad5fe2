mod Prelude
mod Sets
mod Endings
mod AskedPaths
mod Folders
mod LeftFiles
mod NamedFiles
