pub mod CompressionLaws
pub mod SideTable
