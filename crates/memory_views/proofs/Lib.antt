mod ViewReads
