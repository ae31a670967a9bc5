pub mod IdsRise
