pub mod SideTableLemmas
