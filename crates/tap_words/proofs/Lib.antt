mod CommandLine
mod Counts
mod ExamplesLemmas
