pub mod OnceIn
