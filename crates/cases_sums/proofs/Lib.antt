-- What a turn of a sum leaves to be summed gives the same sum.
pub mod SumRest
