pub mod FileSite
