-- What is defined of scripts and of what they print.
pub mod ScriptGrammar
pub mod PrintedLines
pub mod ScriptReading
pub mod SoFar
