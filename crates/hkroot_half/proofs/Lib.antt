-- Laws of the HKROOT half.
mod Halves
