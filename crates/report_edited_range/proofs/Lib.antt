mod Ranging
