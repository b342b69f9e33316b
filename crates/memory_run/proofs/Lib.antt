pub mod OpensLemmas
mod RanLemmas
