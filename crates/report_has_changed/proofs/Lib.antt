mod Compare
