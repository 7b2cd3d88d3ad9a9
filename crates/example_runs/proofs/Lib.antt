mod All
