pub mod Vendor
pub mod VendorPasses
