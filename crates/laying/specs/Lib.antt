-- The meaning of rows laid into an area.
pub mod Laying
