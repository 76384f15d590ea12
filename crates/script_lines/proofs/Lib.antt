pub mod AnyOrder
pub mod Kept
pub mod Numbers
pub mod Parts
pub mod SaidLines
pub mod SaidScripts
