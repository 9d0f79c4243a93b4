pub mod LineLengths
pub mod LongLines
pub mod LogTexts
