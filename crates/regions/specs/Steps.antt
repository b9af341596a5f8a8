pub mod Union
