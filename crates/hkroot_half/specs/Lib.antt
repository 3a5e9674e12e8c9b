-- what the HKROOT half of a sub-frame may change
pub mod Done
