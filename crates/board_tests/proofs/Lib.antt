mod Threes
