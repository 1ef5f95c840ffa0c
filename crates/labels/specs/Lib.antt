-- What the contracts of this crate cite: the raise at a label, and a block over the maps of labels and pools.
pub mod Labels
