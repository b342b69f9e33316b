pub mod KeeperLemmas
