pub mod ProgramWords
pub mod CommandLine
